pub mod MonitorImage
