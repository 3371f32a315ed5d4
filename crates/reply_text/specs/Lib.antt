pub mod Lines
pub mod Slots
pub mod ReplyText
pub mod LastReply
