pub mod Laying
pub mod Outside
