mod Takes
mod Sequences
mod PageParts
mod PageMistakes
mod WholeTexts
mod FirstEntries
mod Refusals
