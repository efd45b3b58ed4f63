mod Edges
mod Paths
mod Numbered
