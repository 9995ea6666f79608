pub mod ReplyChecking
