pub mod Belongings
