pub mod CodesGone
