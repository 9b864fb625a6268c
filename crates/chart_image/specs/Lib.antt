pub mod ChartImage
