pub mod SubscribeRead
