pub mod Text
pub mod Owners
pub mod Made
pub mod Unread
pub mod Reading
pub mod Faults
