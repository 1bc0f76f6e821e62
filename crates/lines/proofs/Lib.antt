-- Where a byte stands is also asked a storey up.
pub mod Found
mod FirstWord
mod Digits
mod Commands
mod Fills
