mod Rounds
mod Starts
mod Numbers
