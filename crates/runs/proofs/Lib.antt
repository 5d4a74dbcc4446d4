mod Steps
mod Lawful
