pub mod Text
pub mod Dump
pub mod Stream
pub mod Page
