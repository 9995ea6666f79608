pub mod Enqueued
