mod MoreRaces
mod Written
mod Settings
