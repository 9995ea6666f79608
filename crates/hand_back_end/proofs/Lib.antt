pub mod EndingRound
