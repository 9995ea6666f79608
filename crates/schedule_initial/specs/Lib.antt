pub mod AddsInitial
