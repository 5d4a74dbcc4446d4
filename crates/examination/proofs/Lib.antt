mod Allowed
mod Asked
mod Turns
mod Refused
mod Pushed
mod TaskPosts
mod Cut
mod Accepted
