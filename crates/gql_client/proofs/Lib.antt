pub mod Clients
pub mod Understood
pub mod OneHearing
