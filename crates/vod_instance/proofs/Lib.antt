mod GateWords
mod Periods
