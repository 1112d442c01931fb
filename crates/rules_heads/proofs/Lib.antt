pub mod HeadPlaces
pub mod Numbers
