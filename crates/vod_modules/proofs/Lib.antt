mod Tables
mod Growing
