pub mod ContentsLemmas
