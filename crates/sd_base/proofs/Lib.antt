pub mod Padding
pub mod Numbered
pub mod Counting
pub mod Removal
pub mod Rows
pub mod Live
pub mod Granted
pub mod Range
pub mod WithoutOwner
pub mod Newest
pub mod Single
pub mod SoundLive
pub mod NetLists
mod OneHolder
mod Examples
