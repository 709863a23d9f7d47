pub mod Families
pub mod FamiliesView
pub mod Links
pub mod LinksView
pub mod Nets
pub mod QueueView
pub mod RingView
pub mod Turns
