pub mod Answers
pub mod Courses
pub mod Gone
pub mod GoneJobs
pub mod TwoCourses
pub mod TwoNodes
