pub mod Same
pub mod Cut
pub mod Goes
pub mod When
