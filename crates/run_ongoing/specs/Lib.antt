pub mod Ongoings
