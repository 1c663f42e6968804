pub mod EntryOrder
mod CertificateRules
mod TextParts
mod LineShapes
mod NumberWords
mod PageWords
mod ItemWords
mod ReadEntries
mod AcceptedTexts
mod WrittenTexts
mod FirstPlaces
