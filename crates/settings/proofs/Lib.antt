pub mod Due
pub mod FewLists
pub mod Found
pub mod Last
pub mod Listed
pub mod Texts
