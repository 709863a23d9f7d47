pub mod Checking
pub mod Gateways
pub mod InForm
pub mod Indexed
pub mod Keys
pub mod Kinds
pub mod Used
pub mod Winning
