mod Clients
mod Steps
