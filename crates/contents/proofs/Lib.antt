mod ReadRows
mod FileBytes
mod WrittenRecords
mod ReadBack
mod Held
