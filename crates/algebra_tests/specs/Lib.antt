pub mod ValueAtZero
