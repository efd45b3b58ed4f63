mod Nested
mod Starts
