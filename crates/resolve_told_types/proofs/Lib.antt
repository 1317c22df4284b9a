mod LineLaws
mod Lists
mod OuterLaws
mod TypeLaws
