pub mod EndsRound
