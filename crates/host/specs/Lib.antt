pub mod HostBuildResult
