pub mod NumberedPages
