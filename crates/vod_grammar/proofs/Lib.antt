mod Lefts
