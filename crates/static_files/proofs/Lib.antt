pub mod Calendar
pub mod Placing
pub mod RangeLaws
pub mod TextLists
pub mod TypeLookup
pub mod TypeSlots
