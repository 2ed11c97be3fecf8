mod Placing
mod Texts
mod Words
mod Reading
mod Listed
mod Filing
