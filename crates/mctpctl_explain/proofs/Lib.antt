mod Explained
mod DividedLines
mod FoundPlaces
mod WalkedLines
mod RepeatedWords
