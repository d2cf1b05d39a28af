-- What the converters answer.
pub mod Answer
