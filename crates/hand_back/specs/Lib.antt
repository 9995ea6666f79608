pub mod ReplyChecks
