mod Words
mod Utf8
mod LineEnds
mod Taken
mod SoFar
mod ToldLines
