pub mod ReplyRead
