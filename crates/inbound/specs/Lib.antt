pub mod Inbound
