pub mod ReadingLaws
pub mod SeatLaws
