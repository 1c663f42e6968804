mod ReadHeaders
mod FieldLines
