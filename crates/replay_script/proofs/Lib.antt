mod Trimming
mod Rows
mod Lines
mod Words
