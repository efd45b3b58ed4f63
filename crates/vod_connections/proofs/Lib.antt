mod Least
mod Found
