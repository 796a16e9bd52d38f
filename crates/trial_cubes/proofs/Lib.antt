pub mod MoreLinks
