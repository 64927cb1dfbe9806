pub mod UnsubscribeRead
