pub mod Log
pub mod Onlooker
pub mod History
pub mod Page
pub mod Laws
