pub mod TakenOnce
pub mod RecentRequests
pub mod WorkedRun
pub mod Numbers
