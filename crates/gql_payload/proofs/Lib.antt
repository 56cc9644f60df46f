mod Texts
pub mod Contents
pub mod Members
pub mod Plain
pub mod Numbers
pub mod Line
pub mod Utf8
pub mod Utf8Content
pub mod Utf8Read
pub mod Printed
pub mod Orderly
pub mod Back
pub mod Wrong
pub mod Reports
