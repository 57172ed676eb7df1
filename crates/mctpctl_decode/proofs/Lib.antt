mod AddedParts
mod EachRead
mod EndedLines
mod HeldPairs
mod NamesRead
mod Numbers
