pub mod InnerTests
